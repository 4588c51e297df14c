pub mod Walking
pub mod Again
pub mod Weakening
pub mod Widths
pub mod Representing
pub mod Stretching
pub mod Telling
