pub mod Dying
