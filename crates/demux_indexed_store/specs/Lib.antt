pub mod Carried
pub mod Store
