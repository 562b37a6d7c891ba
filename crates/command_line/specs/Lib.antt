pub mod Arguments
pub mod parts
