pub mod Collected
