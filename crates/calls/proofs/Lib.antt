pub mod Replies
pub mod Writing
pub mod Taken
