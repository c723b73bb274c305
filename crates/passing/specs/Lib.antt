pub mod Bytes
pub mod Passing
