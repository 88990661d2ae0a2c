pub mod Converted
pub mod Extended
pub mod Plain
pub mod Refusals
