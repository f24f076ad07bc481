pub mod Held
pub mod Packets
