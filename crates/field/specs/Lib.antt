pub mod Scene
pub mod Zone
pub mod Working
pub mod Phasing
pub mod Listed
