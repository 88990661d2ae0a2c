pub mod Count
pub mod Member
pub mod Numbers
pub mod Tabulate
pub mod Total
pub mod Written
