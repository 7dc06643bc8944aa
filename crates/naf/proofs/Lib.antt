pub mod Places
pub mod Due
pub mod Made
pub mod Implied
