pub mod Positional
pub mod Total
pub mod Centred
