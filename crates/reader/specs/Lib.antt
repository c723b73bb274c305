pub mod Readings
pub mod Bodies
