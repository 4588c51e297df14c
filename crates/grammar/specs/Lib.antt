pub mod Forms
pub mod Spelling
pub mod Reading
pub mod Promises
