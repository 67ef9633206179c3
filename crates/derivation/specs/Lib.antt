pub mod Steps
pub mod Call
pub mod Exact
pub mod Answer
pub mod Encoded
pub mod Inner
