pub mod Braced
