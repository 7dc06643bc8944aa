pub mod Strings
pub mod Bytes
pub mod Conditions
pub mod Forms
