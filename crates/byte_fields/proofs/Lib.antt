pub mod Steps
pub mod FieldLaws
pub mod SequenceLaws
pub mod FormatLaws
pub mod ItemLaws
pub mod LastingLaws
pub mod PieceLaws
pub mod TurnLaws
