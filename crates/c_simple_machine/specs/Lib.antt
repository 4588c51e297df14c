pub mod Types
pub mod Evaluation
pub mod Acts
pub mod Steps
pub mod Laws
