pub mod Ms
