pub mod Passing
pub mod Ready
pub mod Store
pub mod Laws
