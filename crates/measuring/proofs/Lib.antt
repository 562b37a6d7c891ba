pub mod MeasuringLaws
