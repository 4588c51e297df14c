pub mod Arguments
pub mod Functions
