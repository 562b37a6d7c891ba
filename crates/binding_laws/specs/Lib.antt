pub mod BankBinding
pub mod LogBinding
pub mod ListBinding
pub mod QuoteBinding
pub mod AttestationBinding
pub mod MeasuredBinding
