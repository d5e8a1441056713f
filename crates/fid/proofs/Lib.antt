pub mod FidLaws
