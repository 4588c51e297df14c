pub mod CellBits
pub mod IntMemory
