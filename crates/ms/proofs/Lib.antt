pub mod MsLaws
