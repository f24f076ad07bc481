pub mod Store
pub mod Runs
