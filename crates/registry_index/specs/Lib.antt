pub mod AskedFiles
pub mod Finding
pub mod KeptBases
pub mod Registries
pub mod RegistryLists
pub mod Sources
