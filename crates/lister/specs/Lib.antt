pub mod Gathering
pub mod Steps
pub mod Owed
pub mod Runs
