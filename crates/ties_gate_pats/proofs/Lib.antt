pub mod Order
pub mod Opening
pub mod Indexed
pub mod Answers
pub mod Entered
pub mod Watch
pub mod One
