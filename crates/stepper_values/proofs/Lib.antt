pub mod Bases
pub mod Cells
