pub mod Handover
pub mod Sheet
