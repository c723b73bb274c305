pub mod Gathering
pub mod Slots
pub mod Lines
pub mod Saves
pub mod Saying
pub mod Loads
