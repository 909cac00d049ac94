pub mod Decls
pub mod Functions
