pub mod Depths
pub mod Following
pub mod Running
pub mod Wanting
