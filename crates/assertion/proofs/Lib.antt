pub mod Guards
pub mod Asserts
pub mod Keeping
pub mod Short
