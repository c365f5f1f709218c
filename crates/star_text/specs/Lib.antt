pub mod Answers
pub mod ArgumentValues
pub mod MethodNames
pub mod Positions
pub mod Rows
