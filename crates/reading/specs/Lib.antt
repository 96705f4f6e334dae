pub mod Keeps
pub mod Player
pub mod Told
pub mod Symbols
pub mod Few
