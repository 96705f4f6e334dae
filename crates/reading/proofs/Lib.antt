pub mod Steps
pub mod Rows
pub mod Hearing
pub mod FewNotes
