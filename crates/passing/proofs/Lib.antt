pub mod Littles
pub mod Made
pub mod Parts
pub mod Placing
pub mod Segments
pub mod Returns
pub mod Truths
