pub mod Arguments
pub mod Firsts
pub mod Results
