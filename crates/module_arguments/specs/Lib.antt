pub mod Arguments
pub mod Attributes
pub mod Directives
pub mod GivenValues
pub mod NamePairs
pub mod Objections
pub mod Objects
