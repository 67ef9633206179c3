pub mod Divisors
pub mod Euclid
pub mod Inverse
pub mod Prime
pub mod Residue
