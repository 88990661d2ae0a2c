pub mod Entered
pub mod Namesakes
pub mod Refusing
pub mod Sides
pub mod Undecided
