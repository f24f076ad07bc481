pub mod Walks
pub mod Ways
pub mod Order
pub mod Sections
