pub mod Source
pub mod SourceViews
pub mod Meaning
