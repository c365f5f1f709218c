pub mod ParseLaws
pub mod SliceTexts
