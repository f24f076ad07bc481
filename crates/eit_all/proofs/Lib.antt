pub mod Ways
pub mod History
pub mod Unique
