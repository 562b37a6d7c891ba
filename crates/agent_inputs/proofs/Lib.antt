pub mod LoadingLemmas
pub mod HashingLaws
pub mod OpeningLaws
