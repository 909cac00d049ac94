-- What is told of pieces in a row that calls send.
pub mod Row
