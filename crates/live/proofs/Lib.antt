pub mod Levelled
pub mod Ends
pub mod Outcomes
pub mod Asked
pub mod Derives
pub mod Chained
