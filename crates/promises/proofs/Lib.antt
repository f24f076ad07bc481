pub mod Demand3
pub mod Demand3Read
pub mod Examples
pub mod Runs
pub mod NotEmpty
pub mod Needed
