pub mod Binary
pub mod Indexing
pub mod Members
pub mod Outcomes
pub mod Unary
