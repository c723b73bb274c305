pub mod Bitwise
pub mod Strips
pub mod StageEnds
pub mod ManySystems
pub mod Offered
pub mod MaskHead
