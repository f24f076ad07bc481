pub mod Cells
pub mod Sets
pub mod Offers
pub mod Kept
pub mod Counts
pub mod Gate
pub mod Unwatched
