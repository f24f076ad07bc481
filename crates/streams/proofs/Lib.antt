pub mod Laws
pub mod After
pub mod Unique
