pub mod Bytes
pub mod Inks
pub mod Adding
pub mod Casting
pub mod Units
