mod Lent
mod Openings
mod Saying
mod Asking
mod Answering
mod Pages
