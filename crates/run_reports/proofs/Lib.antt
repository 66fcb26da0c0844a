pub mod Cells
pub mod Putting
pub mod Writing
