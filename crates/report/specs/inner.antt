pub mod Written
pub mod Room
pub mod Put
