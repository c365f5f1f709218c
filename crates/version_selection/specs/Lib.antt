pub mod Choices
pub mod Refusals
pub mod Selection
pub mod Tables
