pub mod Sections
pub mod Ways
pub mod Walks
pub mod Tables
pub mod Agree
pub mod Examples
