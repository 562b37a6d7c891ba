pub mod Streams
pub mod Memory
