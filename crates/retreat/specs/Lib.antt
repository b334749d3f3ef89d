pub mod Retreat
pub mod Fate
pub mod Answers
pub mod Words
pub mod Units
