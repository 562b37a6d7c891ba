pub mod Keys
pub mod Plain
pub mod Signing
pub mod Refusals
pub mod KeyTexts
pub mod parts
