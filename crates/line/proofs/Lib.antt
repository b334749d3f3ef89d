pub mod Filling
pub mod Sums
