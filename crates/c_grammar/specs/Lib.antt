pub mod Leaves
pub mod Table
pub mod Picking
pub mod Units
