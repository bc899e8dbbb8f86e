pub mod Overlap
pub mod Tables
