pub mod Events
pub mod FileParks
pub mod Keeping
pub mod TableClaims
pub mod JobAsks
pub mod JobParks
