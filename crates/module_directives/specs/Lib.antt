pub mod Directives
pub mod Outcomes
pub mod Parts
pub mod Readers
