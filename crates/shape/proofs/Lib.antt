pub mod Rows
pub mod Front
