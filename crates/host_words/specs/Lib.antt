pub mod Answers
pub mod Pids
pub mod Sections
pub mod Inputs
