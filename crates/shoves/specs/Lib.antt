pub mod Group
pub mod Shoves
pub mod Played
