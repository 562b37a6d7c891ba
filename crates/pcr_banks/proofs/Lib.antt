pub mod AlgLaws
pub mod SetLaws
pub mod OptionLaws
pub mod ExtendLaws
pub mod HashLaws
pub mod BankLaws
pub mod PlaceLaws
pub mod EqualityLaws
