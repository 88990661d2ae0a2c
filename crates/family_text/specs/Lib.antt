pub mod Announced
pub mod Family
pub mod Shown
