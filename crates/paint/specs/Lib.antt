pub mod Room
pub mod Paint
