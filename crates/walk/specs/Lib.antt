pub mod Walks
pub mod Standing
pub mod Pausing
