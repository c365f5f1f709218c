pub mod NameSets
pub mod Nests
pub mod Reads
