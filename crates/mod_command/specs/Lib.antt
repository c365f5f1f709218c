pub mod Commands
pub mod GraphTexts
pub mod Graphs
pub mod Printing
pub mod RootFiles
pub mod Runs
pub mod Statuses
pub mod Written
