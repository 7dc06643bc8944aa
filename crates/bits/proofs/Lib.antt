pub mod BitLaws
pub mod Made
