pub mod Configs
pub mod Steps
pub mod Outcomes
