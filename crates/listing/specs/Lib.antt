pub mod Rules
pub mod Store
