mod Numbers
mod Cases
mod Events
mod Sounds
mod Symbols
