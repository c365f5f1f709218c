pub mod ChoiceLaws
pub mod ChoiceTables
pub mod Choices
pub mod FirstIndexes
pub mod SelectionLaws
pub mod SelectionWalks
