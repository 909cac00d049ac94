pub mod Under
pub mod Kept
