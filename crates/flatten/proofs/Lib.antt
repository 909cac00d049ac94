pub mod Lending
pub mod Flattening
pub mod Totals
