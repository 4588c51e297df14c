pub mod Closing
pub mod Showing
pub mod Keeping
pub mod Reading
