pub mod EntryLineLaws
pub mod FaultCellLaws
pub mod SummaryLaws
pub mod SummaryLineLaws
