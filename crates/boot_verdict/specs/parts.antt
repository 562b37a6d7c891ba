pub mod Kept
pub mod LogPositions
pub mod Rows
pub mod RowTrackers
