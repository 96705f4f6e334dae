pub mod Checked
pub mod Heard
