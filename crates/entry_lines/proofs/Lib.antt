pub mod KernelFieldLaws
pub mod EntryLaws
pub mod SameEntryLaws
pub mod EntryMemberLaws
pub mod SentLaws
