pub mod Tag
pub mod Sheet
pub mod Tagged
pub mod Answer
