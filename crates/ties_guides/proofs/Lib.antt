pub mod Theorems
pub mod Tables
pub mod Examples
