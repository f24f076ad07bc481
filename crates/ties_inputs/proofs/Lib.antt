pub mod Before
pub mod Rows
pub mod Examples
pub mod Card
pub mod Records
pub mod Alone
