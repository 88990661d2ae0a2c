pub mod SampledChain
pub mod SampledConserved
pub mod SampledHistory
pub mod Sums
