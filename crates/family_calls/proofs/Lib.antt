pub mod Ledgers
pub mod Records
pub mod Short
