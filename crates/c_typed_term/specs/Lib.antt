pub mod Terms
pub mod Views
pub mod Nodes
