pub mod Offsets
pub mod ReadLaws
