pub mod PresentFollowing
pub mod PresentFollowingRead
