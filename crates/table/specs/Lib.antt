pub mod Shapes
pub mod Bodies
pub mod Kinds
