pub mod Pushing
pub mod Portions
pub mod Taking
