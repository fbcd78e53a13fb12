pub mod Calculated
