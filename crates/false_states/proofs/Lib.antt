pub mod False
