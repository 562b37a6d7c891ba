pub mod SinkLaws
pub mod PieceLaws
pub mod SourceLaws
