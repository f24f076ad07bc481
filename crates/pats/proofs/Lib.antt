pub mod Store
pub mod Ways
pub mod Laws
pub mod Unique
pub mod Counts
