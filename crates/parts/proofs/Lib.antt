pub mod Encoders
pub mod Placing
pub mod Scripts
