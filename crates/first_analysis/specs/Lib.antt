pub mod Parts
pub mod Evaluation
pub mod Contents
pub mod Values
pub mod Flow
pub mod Tables
