pub mod Sentences
pub mod ErrorTexts
