pub mod Sent
pub mod Decimals
pub mod Quotes
pub mod Listing
pub mod Sending
