pub mod HexLaws
pub mod PathLaws
pub mod UnitLaws
