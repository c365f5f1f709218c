pub mod Loaded
pub mod Reasons
pub mod Evaluations
