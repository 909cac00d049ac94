-- What it is to send a text to a buffer, and how the code lays out its digits and its names.
pub mod Emit
pub mod Digits
pub mod Names
