pub mod Events
pub mod Checks
pub mod Whole
