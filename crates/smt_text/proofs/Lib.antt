pub mod Spelling
pub mod Bounds
pub mod Examples
pub mod Texts
