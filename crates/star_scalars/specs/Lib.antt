pub mod Letters
pub mod Searches
pub mod Pieces
pub mod Lines
