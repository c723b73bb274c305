pub mod Runs
pub mod Headed
pub mod Named
pub mod Commons
pub mod Sorted
pub mod ByOpening
pub mod Chosen
