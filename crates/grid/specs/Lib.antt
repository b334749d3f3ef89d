pub mod Map
pub mod Walk
pub mod Spot
pub mod Region
pub mod Rim
pub mod Rulings
