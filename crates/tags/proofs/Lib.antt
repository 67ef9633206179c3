pub mod TagLaws
pub mod SheetLaws
pub mod ShownLaws
pub mod TaggedLaws
pub mod Empty
pub mod Inputs
