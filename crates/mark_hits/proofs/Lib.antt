pub mod Hits
pub mod Anchors
pub mod Ruled
pub mod Refused
