pub mod Laws
pub mod Begun
pub mod Unique
