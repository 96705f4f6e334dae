pub mod Picks
pub mod Tables
