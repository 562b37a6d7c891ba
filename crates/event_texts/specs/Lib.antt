pub mod Guids
pub mod Numbers
pub mod WideTexts
pub mod NodeFields
pub mod NodeRows
pub mod PathTexts
