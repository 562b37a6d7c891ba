pub mod Paddings
pub mod Reading
pub mod Missing
