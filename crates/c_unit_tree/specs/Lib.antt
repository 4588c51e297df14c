pub mod Views
