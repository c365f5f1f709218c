pub mod Accounts
pub mod Calls
pub mod Claims
pub mod Histories
pub mod Journals
pub mod Parks
pub mod Replays
