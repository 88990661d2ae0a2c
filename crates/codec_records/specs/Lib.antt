pub mod Alike
pub mod Marks
pub mod Records
pub mod Side
