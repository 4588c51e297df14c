pub mod Effects
pub mod Views
