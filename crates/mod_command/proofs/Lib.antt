pub mod RootPaths
pub mod Pieces
