pub mod Images
pub mod Lone
pub mod Moving
pub mod Sole
