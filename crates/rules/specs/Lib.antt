pub mod View
pub mod Rows
pub mod Steps
pub mod Live
pub mod Added
pub mod Weights
pub mod Promise
