pub mod Order
pub mod Call
pub mod Listed
pub mod Answer
pub mod Inner
