pub mod Laws
pub mod Composes
