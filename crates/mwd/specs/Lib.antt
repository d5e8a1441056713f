pub mod Mwd
