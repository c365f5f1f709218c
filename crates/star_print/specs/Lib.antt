pub mod Escapes
pub mod FieldOrder
pub mod Forms
pub mod Prints
