pub mod Cells
pub mod ItemLines
pub mod Values
pub mod Writing
