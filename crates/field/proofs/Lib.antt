pub mod Zones
pub mod Scenes
pub mod Workings
pub mod Lists
pub mod Bounds
pub mod Making
pub mod Named
pub mod Sieves
