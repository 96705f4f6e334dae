pub mod Numbers
pub mod Entering
