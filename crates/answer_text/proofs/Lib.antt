pub mod Families
pub mod Lines
