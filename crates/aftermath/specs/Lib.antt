pub mod Stage
pub mod Losses
pub mod Advance
pub mod Rulings
