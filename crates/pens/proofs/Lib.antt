pub mod Pens
pub mod Numbers
pub mod Gathered
pub mod Begun
