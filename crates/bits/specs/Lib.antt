pub mod Places
pub mod BitLists
pub mod Parts
pub mod Short
pub mod Signed
