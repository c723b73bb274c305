pub mod At
pub mod Shapes
pub mod Table
