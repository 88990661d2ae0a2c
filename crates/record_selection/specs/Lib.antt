pub mod Reported
pub mod Selecting
