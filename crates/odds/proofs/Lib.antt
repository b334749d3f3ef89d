pub mod Columns
pub mod Rulings
