pub mod Columns
pub mod Ledgers
pub mod Room
pub mod Short
pub mod Written
