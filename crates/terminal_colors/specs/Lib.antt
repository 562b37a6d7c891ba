pub mod Choice
pub mod Lines
pub mod Sinks
pub mod States
