pub mod Wrong
pub mod Check
