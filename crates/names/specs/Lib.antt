-- A symbol table over the bytes of a file. Read in this order.
pub mod Table
pub mod Change
pub mod Same
pub mod Theorems
