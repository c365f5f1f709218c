pub mod KeyContents
pub mod Orders
