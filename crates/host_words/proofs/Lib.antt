pub mod Laws
pub mod Same
pub mod Refusals
pub mod Unique
