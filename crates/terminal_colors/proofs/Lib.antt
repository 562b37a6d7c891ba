pub mod LineLaws
pub mod PieceLaws
pub mod PlainLaws
