pub mod Building
pub mod Gluing
pub mod Weakening
pub mod Ranges
