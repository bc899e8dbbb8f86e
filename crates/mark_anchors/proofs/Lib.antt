pub mod Hits
pub mod Limits
pub mod Sides
pub mod Ruled
