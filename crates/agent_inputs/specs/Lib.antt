pub mod Loading
pub mod Opening
pub mod Faults
pub mod System
