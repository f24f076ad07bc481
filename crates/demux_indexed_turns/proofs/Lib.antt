pub mod Section
pub mod Steady
pub mod Laws
