pub mod Bits
pub mod Forks
pub mod Keys
pub mod Maps
pub mod Merges
pub mod Sides
pub mod Trees
pub mod Tops
