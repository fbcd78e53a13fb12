pub mod Nodes
pub mod House
