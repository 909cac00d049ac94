pub mod Tally
pub mod Around
