pub mod Lanes
pub mod Reported
pub mod Served
