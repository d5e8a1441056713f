pub mod Dad
