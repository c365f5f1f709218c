pub mod Edits
pub mod Values
