pub mod SentenceLaws
