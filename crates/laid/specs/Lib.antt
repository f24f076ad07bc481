pub mod Laid
pub mod Walk
