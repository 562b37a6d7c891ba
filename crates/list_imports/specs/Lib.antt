pub mod KernelLines
pub mod ListTexts
pub mod ListImportFaults
pub mod parts
pub mod Names
