pub mod Shapes
pub mod Gathering
pub mod Meaning
