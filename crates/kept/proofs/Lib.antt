pub mod Same
pub mod Live
