pub mod Walk
pub mod Ways
pub mod Window
pub mod Parts
pub mod Listed
pub mod Bounds
pub mod LaidOut
pub mod Examples
