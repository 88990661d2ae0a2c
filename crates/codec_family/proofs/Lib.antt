pub mod Answering
pub mod Called
pub mod Counting
pub mod Refusing
pub mod Selected
pub mod Settled
