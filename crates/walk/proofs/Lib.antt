pub mod Steps
pub mod Marks
pub mod Sweeps
pub mod Looks
pub mod Goings
pub mod Trails
pub mod Joins
pub mod Runs
