pub mod Family
pub mod Side
