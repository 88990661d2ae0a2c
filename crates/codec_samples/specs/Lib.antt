pub mod Books
pub mod Deciding
pub mod SampledCall
pub mod SampledFamily
