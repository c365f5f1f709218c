pub mod Begins
pub mod Pairs
pub mod Turned
