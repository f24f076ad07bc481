pub mod Watching
pub mod Places
pub mod Counting
pub mod Failing
