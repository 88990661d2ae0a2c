pub mod Family
pub mod Pairing
pub mod Refusals
pub mod Search
