pub mod Carries
pub mod Halves
pub mod Due
pub mod Made
pub mod Implied
