pub mod Rules
pub mod View
pub mod History
