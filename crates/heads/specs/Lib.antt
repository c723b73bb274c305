pub mod Fronts
pub mod Heads
pub mod Headings
pub mod Sorting
