pub mod Shown
pub mod Voice
pub mod Kept
