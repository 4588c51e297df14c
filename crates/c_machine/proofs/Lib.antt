mod Leading
mod Asking
mod Jumping
pub mod Runs
mod Determinism
mod Zeros
mod Going
mod Starts
mod Living
mod InScopes
mod Leaving
mod Scopes
mod Accesses
