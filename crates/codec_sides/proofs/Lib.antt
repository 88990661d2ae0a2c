pub mod Gathered
pub mod Keeping
pub mod Most
pub mod Remaining
