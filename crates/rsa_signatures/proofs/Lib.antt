pub mod MaskLaws
pub mod PowerLaws
