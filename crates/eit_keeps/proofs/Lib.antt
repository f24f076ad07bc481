pub mod Units
pub mod Schedules
pub mod Kept
pub mod Stays
pub mod Pushes
pub mod Pids
