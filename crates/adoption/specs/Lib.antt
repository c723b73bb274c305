pub mod Adoptions
pub mod Growing
pub mod Spreading
pub mod Stages
