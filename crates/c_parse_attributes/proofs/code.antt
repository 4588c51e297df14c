pub mod Lists
pub mod Plainly
pub mod Narrowing
pub mod TypeRounds
pub mod Membership
