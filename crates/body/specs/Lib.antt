pub mod Chosen
pub mod Lent
pub mod Written
pub mod Asking
pub mod Near
