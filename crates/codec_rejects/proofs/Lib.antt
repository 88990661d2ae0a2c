pub mod Counting
pub mod Listing
pub mod Marking
pub mod Settling
