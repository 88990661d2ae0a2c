pub mod Alignment
pub mod Window
