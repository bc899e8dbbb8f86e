pub mod Owned
pub mod Trip
pub mod Files
pub mod Facts
