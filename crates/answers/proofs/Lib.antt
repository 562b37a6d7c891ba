pub mod AttestationLaws
pub mod ChangeLaws
pub mod KeyLaws
pub mod LineLaws
pub mod MemberLaws
pub mod RowOrderLaws
pub mod TextLaws
