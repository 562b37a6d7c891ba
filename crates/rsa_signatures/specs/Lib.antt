pub mod Recovery
pub mod Pkcs1
pub mod Pss
