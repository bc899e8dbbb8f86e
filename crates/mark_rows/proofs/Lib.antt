pub mod Pushed
pub mod Bars
pub mod Numbered
pub mod Prices
pub mod Gathered
