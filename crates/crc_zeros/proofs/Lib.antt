pub mod Linear
pub mod Groups
pub mod Nibbles
