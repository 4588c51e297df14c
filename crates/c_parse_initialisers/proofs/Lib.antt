pub mod Picked
mod Shorter
