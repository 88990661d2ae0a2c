pub mod Conservation
pub mod Existing
pub mod NeverTen
pub mod Taking
