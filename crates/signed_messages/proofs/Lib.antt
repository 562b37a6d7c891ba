pub mod SigningLaws
pub mod PlainLaws
pub mod EccLaws
pub mod ShortLaws
pub mod LineLaws
pub mod LayoutLaws
pub mod DecodingLaws
pub mod KeyTextLaws
