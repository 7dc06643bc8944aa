pub mod Scalars
