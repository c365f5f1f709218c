pub mod PushedValues
pub mod RunningCalls
