pub mod Calls
pub mod Single
pub mod Refusals
pub mod Unique
