pub mod Neighbours
pub mod Insertion
pub mod Call
