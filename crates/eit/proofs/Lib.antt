pub mod Calls
pub mod Questions
pub mod Unique
pub mod Refusals
