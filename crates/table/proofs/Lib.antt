pub mod Tabled
pub mod Strips
pub mod Overs
