pub mod Accepted
pub mod Front
pub mod Lines
pub mod Within
