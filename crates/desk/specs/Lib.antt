pub mod Ways
pub mod Work
