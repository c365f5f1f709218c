pub mod RefusingRequests
pub mod Rounds
pub mod WalkOrders
pub mod Walks
