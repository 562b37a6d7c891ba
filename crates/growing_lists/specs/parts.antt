pub mod CheckpointParts
pub mod Confirming
pub mod Searches
