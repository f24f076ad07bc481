pub mod Inputs
pub mod Card
pub mod Before
pub mod Records
