pub mod Grammar
pub mod Mappings
pub mod Parts
pub mod Resolution
