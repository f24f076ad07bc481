pub mod Search
pub mod Laws
pub mod Rows
pub mod Places
pub mod Order
pub mod Examples
