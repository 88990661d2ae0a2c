pub mod Founding
pub mod Group
pub mod InOrder
pub mod Lists
pub mod Order
pub mod Side
