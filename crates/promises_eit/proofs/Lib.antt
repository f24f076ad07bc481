pub mod PresentFollowing
pub mod PresentNeeded
pub mod PresentFollowingRead
