pub mod Uv
