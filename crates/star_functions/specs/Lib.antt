pub mod Answers
pub mod FunctionNames
pub mod Rows
pub mod Sequences
