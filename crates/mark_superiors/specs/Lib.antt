pub mod Superiors
