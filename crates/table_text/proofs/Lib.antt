pub mod Appending
pub mod Decimals
pub mod FieldLists
pub mod Firsts
pub mod Pages
pub mod Partings
pub mod Tables
