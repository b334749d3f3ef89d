pub mod Plots
pub mod Trails
pub mod Marking
pub mod Ends
pub mod Ending
pub mod Taking
pub mod Searching
pub mod Following
