pub mod Forms
pub mod Steps
pub mod CallsAndBars
pub mod Limit
pub mod Long
pub mod Facts
