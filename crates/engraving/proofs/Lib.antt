pub mod Page
pub mod Turns
pub mod Room
pub mod Parts
pub mod Deriving
pub mod Beginning
