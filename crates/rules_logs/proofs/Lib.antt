pub mod Verdict
pub mod Sections
pub mod Examples
