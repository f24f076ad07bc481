pub mod Card
pub mod History
pub mod Opened
