pub mod Adjacent
pub mod Odds
pub mod Rulings
