pub mod Reported
pub mod Sheet
pub mod SheetText
