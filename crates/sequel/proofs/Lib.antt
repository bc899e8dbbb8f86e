pub mod Sequels
