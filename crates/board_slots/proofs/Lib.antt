pub mod GiftLists
pub mod Opens
pub mod Ways
pub mod CycleTexts
