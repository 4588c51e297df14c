mod Contents
mod Packing
