pub mod Counts
pub mod Names
