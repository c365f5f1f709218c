pub mod Chains
pub mod KeyEquality
pub mod Told
pub mod ValueOrders
