pub mod Discoveries
pub mod DiscoveryLaws
pub mod KeySets
