pub mod ContentLayers
pub mod EntryWalks
pub mod Layers
pub mod RangeLaws
