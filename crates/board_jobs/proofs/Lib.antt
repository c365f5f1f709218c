pub mod IndexLists
pub mod Handing
pub mod Fitting
pub mod Indexed
