pub mod Drawn
pub mod Pushes
