pub mod Balance
pub mod TypesAtDepth
pub mod ReadsTypes
