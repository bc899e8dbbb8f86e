pub mod Insert
