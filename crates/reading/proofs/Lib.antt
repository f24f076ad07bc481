pub mod Reading
pub mod Reader
