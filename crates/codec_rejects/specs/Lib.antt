pub mod Fates
pub mod Handover
