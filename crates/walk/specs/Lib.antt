pub mod Chain
pub mod Sweep
pub mod Trail
pub mod Swept
pub mod Examples
