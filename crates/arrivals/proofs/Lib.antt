pub mod Ways
pub mod Facts
pub mod Unique
pub mod ByKind
