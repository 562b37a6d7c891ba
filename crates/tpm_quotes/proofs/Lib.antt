pub mod SelectionLaws
pub mod QuoteLaws
pub mod JoiningLaws
