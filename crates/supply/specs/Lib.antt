pub mod Open
pub mod Graded
pub mod Supply
pub mod Traced
pub mod Examples
