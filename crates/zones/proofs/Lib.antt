pub mod Scan
pub mod Level
pub mod Call
