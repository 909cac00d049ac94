pub mod Names
pub mod Constraints
