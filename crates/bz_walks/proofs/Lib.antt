pub mod EachItem
pub mod Rounds
pub mod WalkLaws
pub mod WalkOrders
pub mod WalkSteps
