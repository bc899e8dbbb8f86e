pub mod Quotes
pub mod Anchors
