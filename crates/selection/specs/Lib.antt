pub mod ChoiceTables
pub mod Selection
pub mod SelectionLaws
