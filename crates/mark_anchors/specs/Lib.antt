pub mod Anchored
