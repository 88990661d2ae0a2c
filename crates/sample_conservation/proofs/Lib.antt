pub mod SampledConservation
pub mod SampledExisting
pub mod SampledNeverTen
pub mod Summing
pub mod Turns
