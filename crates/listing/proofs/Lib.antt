pub mod Sounds
pub mod Turns
