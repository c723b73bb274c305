pub mod Fronts
pub mod Plans
pub mod Kinds
pub mod Stages
pub mod Written
pub mod Writings
