pub mod Sha1Form
pub mod LogForms
pub mod ImportFaults
pub mod Imports
pub mod Starts
pub mod parts
pub mod Names
