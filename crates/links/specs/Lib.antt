pub mod List
pub mod Opposites
