pub mod Ways
pub mod May
pub mod Every
