pub mod DigestLines
pub mod Listing
pub mod Known
pub mod EntryFiles
pub mod Unknown
