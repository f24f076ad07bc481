pub mod Runs
pub mod Gate
pub mod Indexed
pub mod Sets
pub mod Eit
pub mod Demand3
pub mod All
pub mod EitAll
