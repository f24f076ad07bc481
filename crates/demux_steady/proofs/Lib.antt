pub mod Sections
pub mod Steady
