pub mod Store
pub mod View
