pub mod SignatureLaws
pub mod TableLaws
