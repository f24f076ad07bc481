pub mod Calls
pub mod Unique
pub mod Refusals
