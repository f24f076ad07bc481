pub mod Run
pub mod Gate
pub mod Lists
pub mod Entries
pub mod Older
