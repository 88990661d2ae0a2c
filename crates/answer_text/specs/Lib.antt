pub mod FamilyText
pub mod Left
pub mod Line
pub mod SampleText
pub mod SelectionText
