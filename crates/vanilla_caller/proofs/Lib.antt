pub mod Champions
pub mod Groups
pub mod Marks
pub mod Moving
pub mod Orders
pub mod Staying
