pub mod Methods
pub mod Lawful
