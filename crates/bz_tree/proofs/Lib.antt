pub mod Ascending
pub mod Fronts
pub mod Puts
pub mod Readings
