pub mod Divisors
pub mod Inverse
pub mod Prime
pub mod Residue
