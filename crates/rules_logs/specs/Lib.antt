pub mod Records
pub mod Sections
pub mod Verdict
