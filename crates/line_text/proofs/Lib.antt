pub mod Columns
pub mod Fits
pub mod Layouts
pub mod Readings
