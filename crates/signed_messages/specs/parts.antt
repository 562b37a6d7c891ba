pub mod PlainReading
pub mod PemReading
