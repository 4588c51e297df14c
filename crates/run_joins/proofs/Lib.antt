pub mod Running
pub mod Walking
pub mod Opening
pub mod Repeated
