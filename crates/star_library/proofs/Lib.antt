pub mod Binding
pub mod PairLists
pub mod RangeSteps
