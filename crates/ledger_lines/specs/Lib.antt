pub mod Ledgers
pub mod Settings
