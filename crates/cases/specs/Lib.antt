pub mod Encode
pub mod Circuits
pub mod Table
pub mod Listings
