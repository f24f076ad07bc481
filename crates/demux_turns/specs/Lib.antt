pub mod Turns
pub mod Offers
