pub mod Standing
pub mod Drawing
pub mod Nearby
pub mod Folding
pub mod Judging
