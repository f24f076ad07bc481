pub mod Passing
pub mod Store
