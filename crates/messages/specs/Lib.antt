pub mod State
pub mod Round
