pub mod MemoryRows
pub mod RowMeaning
