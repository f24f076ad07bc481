pub mod Eit
pub mod Segment
