pub mod Upward
pub mod Held
pub mod Places
pub mod Listing
pub mod Tabling
pub mod Theorems
