pub mod BookParts
pub mod EqualityProofs
pub mod GroupParts
pub mod Indexes
pub mod Steps
