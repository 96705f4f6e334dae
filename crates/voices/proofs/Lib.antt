pub mod Found
pub mod Onward
pub mod Altered
pub mod Taken
pub mod Ahead
