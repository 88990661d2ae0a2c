pub mod Deciding
pub mod Sampling
