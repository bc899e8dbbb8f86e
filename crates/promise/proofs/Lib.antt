pub mod Counted
pub mod Results
pub mod Promised
pub mod Hostile
pub mod Reached
