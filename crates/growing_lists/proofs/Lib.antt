pub mod CheckpointLaws
pub mod SessionLaws
pub mod PrefixLaws
pub mod ConfirmLaws
pub mod DataLaws
