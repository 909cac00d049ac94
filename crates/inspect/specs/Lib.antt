pub mod Inspect
pub mod Walk
