pub mod Spans
pub mod Scores
pub mod Single
pub mod Rows
