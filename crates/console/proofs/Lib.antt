pub mod TurnLaws
pub mod Filling
