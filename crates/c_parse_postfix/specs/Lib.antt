pub mod AtDepth
