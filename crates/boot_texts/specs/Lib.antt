pub mod Answering
pub mod AnswerCells
pub mod Boots
pub mod Claims
pub mod Telling
pub mod EachBank
pub mod BootLines
pub mod Differences
