pub mod Contained
pub mod Equality
pub mod Keys
pub mod Order
pub mod Ranges
