pub mod PaddingLaws
pub mod Sha1Laws
pub mod ImportLaws
pub mod MadeLaws
pub mod FormLaws
pub mod StartLaws
