pub mod EscapingLaws
pub mod HintLaws
pub mod OldLaws
