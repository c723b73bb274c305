pub mod Matching
pub mod Values
