pub mod Playing
pub mod Replies
