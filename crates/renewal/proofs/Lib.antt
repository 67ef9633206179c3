pub mod Bytes
pub mod Copies
pub mod Renewed
pub mod CallLaws
pub mod Empty
