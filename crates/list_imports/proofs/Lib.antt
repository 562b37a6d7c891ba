pub mod ListTextLaws
