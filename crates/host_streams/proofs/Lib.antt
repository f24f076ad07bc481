pub mod Laws
pub mod Same
pub mod Unique
pub mod Refusals
