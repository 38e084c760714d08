pub mod FiveTuple
pub mod CommunityId
pub mod Uid
