pub mod ZoneOrder
pub mod ZoneBars
pub mod SuperiorBars
pub mod SuperiorRows
