pub mod Handing
pub mod Texts
