pub mod Masks
pub mod Strands
