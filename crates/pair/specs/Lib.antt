pub mod Call
pub mod Exact
pub mod Answer
