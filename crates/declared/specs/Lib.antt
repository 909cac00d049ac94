-- The names that a task declares, as the entries of a symbol table. Read in this order.
pub mod Symbols
pub mod Arity
pub mod Gather
pub mod Row
