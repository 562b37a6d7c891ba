pub mod TableLaws
pub mod MaterialLaws
pub mod AreaLaws
pub mod DerLaws
pub mod PemLaws
