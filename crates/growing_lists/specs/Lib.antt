pub mod CheckpointData
pub mod CheckpointTexts
pub mod Sessions
pub mod Goals
pub mod Prefixes
pub mod parts
