pub mod Trip
pub mod Facts
