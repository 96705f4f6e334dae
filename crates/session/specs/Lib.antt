pub mod Session
pub mod Promises
