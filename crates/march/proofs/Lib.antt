pub mod Steps
pub mod Judging
pub mod Moves
pub mod KeepMove
pub mod KeepEnd
pub mod Ends
pub mod EndDesk
pub mod Bounds
