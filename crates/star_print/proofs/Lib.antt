pub mod FieldLists
pub mod Layers
