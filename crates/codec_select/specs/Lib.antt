pub mod Alignments
pub mod Selection
pub mod Steps
