pub mod Called
pub mod Read
pub mod Bars
pub mod Input
