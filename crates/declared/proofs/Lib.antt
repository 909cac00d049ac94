-- What the steps of the walk add up to; how many symbols there are; KVars; the whole task; which names are of a range of kinds.
pub mod Collecting
pub mod Gathering
pub mod Counting
pub mod Arities
pub mod Whole
pub mod Ranges
