pub mod Evicted
pub mod Kept
pub mod Card
pub mod Opened
