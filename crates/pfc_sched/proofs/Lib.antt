pub mod Cutting
pub mod Numbers
pub mod PickLaws
pub mod ScriptLaws
