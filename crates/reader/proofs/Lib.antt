pub mod Lents
pub mod Outcomes
pub mod Rawed
pub mod Bodied
pub mod Adopted
pub mod Findings
pub mod Sought
pub mod RowsRead
