pub mod AnswerLineLaws
pub mod EachBankLaws
pub mod TellingLaws
pub mod BootLaws
pub mod DifferenceLaws
