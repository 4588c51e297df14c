pub mod Cells
pub mod BitParts
mod Making
pub mod Growing
