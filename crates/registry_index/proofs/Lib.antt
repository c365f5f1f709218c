pub mod Readings
mod KeptDirectories
pub mod RegistryForms
mod UrlSets
