pub mod Scalars
pub mod Values
pub mod Layouts
pub mod Memories
pub mod Operations
pub mod Rows
