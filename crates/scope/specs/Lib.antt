pub mod Known
pub mod Walk
pub mod Judged
pub mod Row
