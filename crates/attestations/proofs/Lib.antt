pub mod KeptLaws
pub mod JudgeLaws
