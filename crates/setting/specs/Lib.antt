pub mod Setting
pub mod Rim
pub mod Decide
pub mod Decided
