pub mod Music
pub mod Print
pub mod Calls
pub mod Promise
pub mod Examples
pub mod Meaning
pub mod Spelling
