pub mod Numbering
pub mod Claims
