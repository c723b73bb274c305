pub mod Columns
pub mod Cuts
pub mod Laid
pub mod RowsAt
pub mod Table
