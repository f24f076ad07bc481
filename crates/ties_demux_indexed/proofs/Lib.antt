pub mod Gate
pub mod Turns
pub mod Feed
pub mod Card
pub mod Opening
pub mod History
