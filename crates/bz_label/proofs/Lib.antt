pub mod GoodLabels
pub mod MappedNames
pub mod ResolvedLabels
pub mod SegmentLists
pub mod SpelledLabels
