pub mod Trees
pub mod Spelling
pub mod Nesting
pub mod Views
pub mod WellFormed
