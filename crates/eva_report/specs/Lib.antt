pub mod Report
pub mod Views
pub mod Grammar
pub mod Meaning
