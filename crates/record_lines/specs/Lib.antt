pub mod Header
pub mod Record
pub mod Records
