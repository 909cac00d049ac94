pub mod Interpretation
pub mod Holds
pub mod Theorems
pub mod Script
pub mod Table
