mod Answering
mod Cuts
mod Answered
mod Promised
