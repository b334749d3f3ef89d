pub mod Spans
pub mod Rims
