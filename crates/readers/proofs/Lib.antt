pub mod Ways
pub mod Steps
pub mod Unique
