pub mod Edits
pub mod MethodNames
pub mod Rows
pub mod Searching
