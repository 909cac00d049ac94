pub mod Sections
pub mod Whole
pub mod Naming
