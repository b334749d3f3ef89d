pub mod Step
pub mod Move
pub mod Answers
pub mod Judged
pub mod EndPhase
pub mod Ending
pub mod Examples
