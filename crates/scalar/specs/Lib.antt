pub mod Answers
pub mod FromBits
pub mod FromSlice
pub mod ConditionalSelect
pub mod IsOdd
pub mod Zeroize
