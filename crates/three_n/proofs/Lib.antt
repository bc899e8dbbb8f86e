pub mod Parts
pub mod Call
