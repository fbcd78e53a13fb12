pub mod Flowing
pub mod Taking
pub mod Loops
pub mod Spreading
