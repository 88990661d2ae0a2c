pub mod Cigar
pub mod Flags
pub mod Operations
pub mod Prefix
pub mod ReadPosition
pub mod Simplified
