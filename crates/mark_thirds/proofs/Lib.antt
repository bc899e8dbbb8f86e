pub mod Marks
pub mod Zones
