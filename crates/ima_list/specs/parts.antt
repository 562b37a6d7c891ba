pub mod Entries
pub mod HashedFields
pub mod Pieces
pub mod Reading
pub mod Writing
