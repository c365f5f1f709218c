pub mod Boards
pub mod Moves
pub mod Kept
pub mod Events
