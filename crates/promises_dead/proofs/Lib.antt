pub mod Dead
pub mod Ever
