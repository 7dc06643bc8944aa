pub mod SumRead
pub mod inner
