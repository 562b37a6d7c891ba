pub mod HashedLaws
pub mod SecureBootLaws
pub mod ImageLaws
pub mod DeterminedLaws
pub mod TextLaws
