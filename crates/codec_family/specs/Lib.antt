pub mod Answer
pub mod Call
pub mod Counted
pub mod Ending
pub mod FamilyCalled
pub mod Fates
pub mod Lent
pub mod Refusals
