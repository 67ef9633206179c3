pub mod Recorded
pub mod Call
pub mod Watched
pub mod Answer
pub mod Inner
