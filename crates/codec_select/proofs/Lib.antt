pub mod Admitting
pub mod Formed
pub mod Measured
pub mod Settled
pub mod Sound
