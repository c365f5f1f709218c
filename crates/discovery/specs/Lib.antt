pub mod Discovery
pub mod DiscoveryLaws
pub mod KeySets
