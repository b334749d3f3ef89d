pub mod Grading
pub mod Supplies
pub mod Bounds
