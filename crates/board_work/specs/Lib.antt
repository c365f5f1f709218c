pub mod Turns
pub mod Cycles
