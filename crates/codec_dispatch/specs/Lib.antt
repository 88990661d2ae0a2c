pub mod Dispatch
pub mod Reported
pub mod Turns
