pub mod Ranges
pub mod Ways
pub mod Unique
