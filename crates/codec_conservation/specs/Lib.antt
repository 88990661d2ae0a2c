pub mod Chain
pub mod Conserved
pub mod History
