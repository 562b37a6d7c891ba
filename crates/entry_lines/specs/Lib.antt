pub mod KernelFieldJson
pub mod EntryJson
pub mod ListLines
pub mod SentEntries
