pub mod MatchingLaws
pub mod QuotedLaws
pub mod PlaceLaws
pub mod ExistLaws
pub mod RequiredLaws
