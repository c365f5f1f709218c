pub mod Found
pub mod TextNames
