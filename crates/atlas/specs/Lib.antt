pub mod Atlas
