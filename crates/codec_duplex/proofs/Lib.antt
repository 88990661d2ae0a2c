pub mod BasesAlone
pub mod Fits
pub mod Units
