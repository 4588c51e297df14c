pub mod Elements
pub mod Cells
pub mod Order
pub mod Meaning
pub mod Join
pub mod Access
pub mod Laws
