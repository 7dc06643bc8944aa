pub mod Faults
pub mod ReadLaws
