pub mod Columns
pub mod Settling
