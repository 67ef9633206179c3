pub mod CallLaws
pub mod Exact
pub mod Empty
