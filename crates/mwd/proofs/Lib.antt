pub mod MwdLaws
