pub mod ShowingLaws
pub mod StreamingLaws
pub mod OutcomeLaws
pub mod MatchingLaws
pub mod AloneLaws
