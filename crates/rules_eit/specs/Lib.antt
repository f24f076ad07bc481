pub mod Keys
pub mod Segments
pub mod Schedules
pub mod Rules
pub mod Cells
