pub mod Marking
pub mod MaskFields
pub mod Putting
pub mod Sizes
