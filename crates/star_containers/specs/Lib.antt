pub mod Changing
pub mod Slicing
