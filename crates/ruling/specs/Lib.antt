pub mod Values
pub mod Verdict
pub mod Refused
pub mod Answers
pub mod Packed
pub mod Judged
pub mod Secret
pub mod OldDesk
