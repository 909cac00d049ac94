-- The proofs behind specs/Theorems.antt, in this order, and what the code's proofs share.
pub mod Bools
pub mod Plain
pub mod OneKind
pub mod Lexer
pub mod Nest
pub mod Cut
pub mod Compose
pub mod Decimal
pub mod Reader
pub mod Entries
pub mod Words
pub mod Examples
