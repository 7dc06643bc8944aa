pub mod Ascii
pub mod Text
pub mod Report
pub mod inner
