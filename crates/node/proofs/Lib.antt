pub mod Rows
pub mod Held
pub mod Lent
