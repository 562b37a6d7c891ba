pub mod BankBindingLaws
pub mod LogBindingLaws
pub mod ListBindingLaws
pub mod QuoteBindingLaws
pub mod AttestationBindingLaws
pub mod MeasuredBindingLaws
