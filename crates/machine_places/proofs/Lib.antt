mod Belonging
mod Segments
mod Landing
mod Staying
mod Whereabouts
mod Recursion
mod Telling
