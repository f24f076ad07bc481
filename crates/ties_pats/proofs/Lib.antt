pub mod Cells
pub mod Kept
pub mod Obey
pub mod History
pub mod One
pub mod Examples
