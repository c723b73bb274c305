pub mod HandedWrites
