pub mod Store
pub mod Words
pub mod Moves
pub mod Owed
