pub mod Fates
pub mod Ranking
pub mod Reasons
pub mod Refusals
pub mod Short
