pub mod Parts
pub mod Rows
pub mod Surveying
