pub mod Said
pub mod Rows
pub mod Regions
pub mod Holding
pub mod Ahead
