pub mod Nodes
pub mod Searching
pub mod Storing
pub mod Choosing
