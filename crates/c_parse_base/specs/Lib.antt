pub mod KnownNames
pub mod Newest
pub mod Heights
pub mod Purposes
pub mod Reads
