pub mod Going
pub mod Pages
pub mod Stops
