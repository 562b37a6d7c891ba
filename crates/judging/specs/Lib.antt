pub mod Inputs
pub mod Requests
pub mod Answering
pub mod Queries
