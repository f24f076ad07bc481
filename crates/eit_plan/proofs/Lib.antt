pub mod Plans
pub mod May
