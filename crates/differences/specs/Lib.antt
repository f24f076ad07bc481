pub mod Rules
pub mod Walk
