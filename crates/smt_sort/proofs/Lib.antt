pub mod Editions
pub mod Sorts
