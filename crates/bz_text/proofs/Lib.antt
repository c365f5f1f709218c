pub mod CutLists
pub mod CutParts
pub mod GivenAnswers
pub mod ListWalks
pub mod Turns
