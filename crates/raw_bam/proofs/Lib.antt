pub mod InOrder
pub mod Joining
pub mod Masks
pub mod Positions
pub mod Prefixes
