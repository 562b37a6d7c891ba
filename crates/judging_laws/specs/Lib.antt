pub mod AttestedAnswers
pub mod KnownEntries
pub mod QuotedLogs
