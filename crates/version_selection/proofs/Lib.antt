pub mod FirstNames
pub mod Heights
pub mod KeyTables
