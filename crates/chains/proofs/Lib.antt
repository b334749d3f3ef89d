pub mod Chains
pub mod Follows
pub mod Serves
pub mod Find
pub mod Fold
