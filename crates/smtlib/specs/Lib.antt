-- What a reading of an SMT-LIB 2.6 script is. Read in this order.
pub mod Lexicon
pub mod Read
pub mod Cut
pub mod Compose
pub mod Theorems
pub mod Table
