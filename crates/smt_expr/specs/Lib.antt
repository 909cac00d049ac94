-- What the writers of expressions send.
pub mod Parts
