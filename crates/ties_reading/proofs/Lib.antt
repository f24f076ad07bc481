pub mod Sets
pub mod Rows
pub mod Eit
pub mod Schedules
pub mod Readers
