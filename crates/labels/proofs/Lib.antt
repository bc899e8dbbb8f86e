pub mod Names
pub mod Touching
pub mod Steps
pub mod Call
