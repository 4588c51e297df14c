pub mod Inclusion
pub mod Singles
pub mod Deaths
