pub mod AttestedAnswerLaws
pub mod KnownEntryLaws
pub mod QuotedLogLaws
pub mod ToldLogLaws
