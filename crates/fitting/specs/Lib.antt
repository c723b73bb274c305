pub mod Fits
pub mod FitHeads
