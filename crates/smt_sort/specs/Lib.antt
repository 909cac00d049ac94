-- What the writers of sorts send.
pub mod Section
