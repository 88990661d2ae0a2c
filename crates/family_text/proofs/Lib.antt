pub mod Advances
pub mod Calls
