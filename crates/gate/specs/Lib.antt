pub mod Rules
pub mod Store
pub mod View
