pub mod Counted
pub mod Step
pub mod Run
pub mod Again
