pub mod Bases
pub mod Fit
pub mod Line
pub mod Numbers
pub mod Reading
pub mod Value
