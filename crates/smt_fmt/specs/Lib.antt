-- What the writers of predicates and declarations send.
pub mod Items
