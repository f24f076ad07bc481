pub mod Complete
pub mod Row
pub mod Demand
pub mod Five
