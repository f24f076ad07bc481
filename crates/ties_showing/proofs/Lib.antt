pub mod Kept
pub mod Never
