pub mod Integers
pub mod Operators
pub mod KindSets
pub mod Wide
