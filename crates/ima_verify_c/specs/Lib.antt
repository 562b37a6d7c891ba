pub mod Answers
pub mod ErrorTexts
pub mod Boot
pub mod Converting
pub mod Numbers
pub mod Requests
