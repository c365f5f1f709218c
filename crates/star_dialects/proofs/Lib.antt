pub mod FirstAmong
pub mod StatementPlaces
pub mod NamesAfter
