pub mod Matching
pub mod ColumnTests
pub mod RowTests
pub mod Lines
pub mod Passing
pub mod ValueTests
