pub mod FitRows
pub mod FitHeads
pub mod FitFlagged
pub mod FitMasks
pub mod FitMessages
