pub mod BitNumber
pub mod Bits
