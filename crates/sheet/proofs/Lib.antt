pub mod Nodes
pub mod Links
pub mod Facts
pub mod Writing
