pub mod Complement
pub mod Orientation
pub mod StrandLaws
