pub mod GoodValues
pub mod Integers
pub mod Layers
