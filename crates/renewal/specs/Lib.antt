pub mod Call
pub mod Renewed
pub mod Answer
pub mod Inner
