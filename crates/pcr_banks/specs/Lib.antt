pub mod Hashing
pub mod Digests
pub mod Sets
pub mod Registers
pub mod Hashers
pub mod Equality
pub mod parts
pub mod Names
