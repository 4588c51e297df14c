pub use Rattle.avalue_values.specs.Views
pub use Rattle.avalue_values.specs.Parts
pub mod Codes
pub mod Widenings
