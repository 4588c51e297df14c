mod Counting
mod Holding
mod Writing
