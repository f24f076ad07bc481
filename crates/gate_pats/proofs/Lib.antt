pub mod Laws
pub mod Manner
pub mod Unique
