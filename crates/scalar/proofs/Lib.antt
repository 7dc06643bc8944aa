pub mod Reduced
pub mod Selects
pub mod Zeroized
pub mod FromSlices
pub mod ScalarAnswers
