pub mod Pairing
pub mod Listing
