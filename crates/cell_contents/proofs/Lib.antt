pub mod Contents
pub mod Singles
pub mod Worlds
pub mod Deaths
pub mod Soles
pub mod Reading
