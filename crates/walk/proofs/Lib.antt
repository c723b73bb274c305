pub mod Going
pub mod Found
pub mod Begins
pub mod Pausing
