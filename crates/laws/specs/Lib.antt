pub mod Lists
pub mod Put
pub mod Keys
pub mod Records
