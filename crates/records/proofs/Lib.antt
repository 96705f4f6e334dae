pub mod Numbers
pub mod Steps
pub mod Law
pub mod Turns
