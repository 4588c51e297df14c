pub mod Fitting
pub mod Turning
pub mod Widths
pub mod Overwriting
pub mod Describing
