pub mod Rules
pub mod Card
pub mod History
pub mod Opened
pub mod Counting
