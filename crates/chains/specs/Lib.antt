pub mod Stand
pub mod Chain
pub mod Series
pub mod Follows
pub mod Serves
pub mod Find
pub mod Fold
pub mod Examples
