pub mod Bytes
pub mod Touching
pub mod Steps
