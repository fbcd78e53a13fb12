pub mod Replies
pub mod Played
