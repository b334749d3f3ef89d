pub mod Attack
pub mod Asked
pub mod Line
pub mod Mustered
pub mod Battle
pub mod Answers
