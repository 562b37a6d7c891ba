pub mod StatedLines
pub mod RangeEnds
pub mod SelectionParts
