pub mod Records
pub mod After
pub mod Second
pub mod Extended
pub mod Walked
pub mod Given
