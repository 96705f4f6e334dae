pub mod Lines
pub mod Script
pub mod Promised
pub mod Desk
