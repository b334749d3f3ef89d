pub mod Phase
pub mod Clock
