pub mod Steps
mod Units
