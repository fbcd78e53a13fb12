pub mod Places
pub mod Choices
pub mod Shares
