pub mod Arguments
pub mod Calls
pub mod Kinds
pub mod ParameterNames
pub mod Ranges
