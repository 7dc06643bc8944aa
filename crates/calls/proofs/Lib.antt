pub mod Codes
pub mod Lengths
pub mod Answers
pub mod Given
pub mod Determined
