pub mod Lawful
pub mod Meaning
