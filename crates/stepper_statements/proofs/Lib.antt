pub mod Arms
pub mod Whiles
