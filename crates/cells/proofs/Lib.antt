pub mod CellLaws
pub mod FaultMemberLaws
pub mod ItemLineLaws
pub mod LineLaws
pub mod WrittenLaws
