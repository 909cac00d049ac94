pub mod Captures
pub mod Examples
pub mod Meaning
