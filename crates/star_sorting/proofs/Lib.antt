pub mod Halves
pub mod Merges
