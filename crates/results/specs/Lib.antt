pub mod Participants
pub mod Results
pub mod Settled
