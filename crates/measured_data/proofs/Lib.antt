pub mod PartLaws
pub mod MeasuredLaws
pub mod ConfirmedLaws
