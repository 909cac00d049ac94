-- What is written for a task's sorts, expressions, predicates and declarations, what is called for, and that they meet. Read in this order.
pub mod Editions
pub mod Encoder
pub mod Theory
pub mod Text
pub mod Template
pub mod Sexp
pub mod Theorems
pub mod Table
