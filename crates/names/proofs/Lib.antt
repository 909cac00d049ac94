-- Names at a place; the last number that passes a test; chains, and what push and pop leave of them; the theorems.
pub mod Bytes
pub mod Lasts
pub mod Chains
pub mod Theorems
pub mod Sames
