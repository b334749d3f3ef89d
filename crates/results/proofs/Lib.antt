pub mod Upshots
pub mod Settles
