pub mod Ways
pub mod Unique
pub mod Listed
