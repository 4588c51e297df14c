pub mod Images
pub mod Moved
pub mod Moves
pub mod Singles
