pub mod Texts
pub mod Rows
pub mod Sorts
pub mod ByName
pub mod Exprs
pub mod Preds
pub mod Names
