pub mod Counters
pub mod Rules
