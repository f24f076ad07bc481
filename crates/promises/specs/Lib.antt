pub mod Demand3
pub mod Demand3Read
pub mod Examples
