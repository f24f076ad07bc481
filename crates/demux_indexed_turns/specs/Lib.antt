pub mod Acts
pub mod Offers
