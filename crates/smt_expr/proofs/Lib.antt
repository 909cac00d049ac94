pub mod Exprs
pub mod Heads
