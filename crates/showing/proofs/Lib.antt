pub mod Ways
pub mod Held
pub mod Unique
pub mod Examples
