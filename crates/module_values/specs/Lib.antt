pub mod PlainValues
pub mod TextLists
