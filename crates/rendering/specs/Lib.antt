pub mod FaultTexts
pub mod Rendering
pub mod Summaries
pub mod SummaryLines
