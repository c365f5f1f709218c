pub mod ReachingLaws
pub mod Reachings
