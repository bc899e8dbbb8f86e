pub mod Trip
pub mod Same
