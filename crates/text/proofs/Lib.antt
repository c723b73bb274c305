pub mod Stores
pub mod LastDigits
pub mod HexDigits
pub mod Values
pub mod Characters
