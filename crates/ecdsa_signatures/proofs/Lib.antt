pub mod DigitLaws
pub mod ModularLaws
pub mod PointLaws
pub mod CurveLaws
