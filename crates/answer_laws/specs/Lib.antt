pub mod Hashed
pub mod HashedAnswers
pub mod HashedImages
pub mod HashedTexts
