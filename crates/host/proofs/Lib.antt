pub mod Outcomes
pub mod Opened
pub mod Walks
pub mod HandedLines
