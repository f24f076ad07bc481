pub mod Records
pub mod Gate
pub mod Lists
pub mod Examples
pub mod Older
