pub mod Dying
pub mod Tables
pub mod Written
