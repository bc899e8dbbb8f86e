pub mod Did
pub mod Steps
pub mod Sequence
