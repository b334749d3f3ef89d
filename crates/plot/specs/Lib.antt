pub mod Plot
pub mod Trail
pub mod Ends
pub mod Search
pub mod Follow
