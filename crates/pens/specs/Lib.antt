pub mod Pens
pub mod Numbers
