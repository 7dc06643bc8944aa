pub mod WordLaws
pub mod WordSteps
