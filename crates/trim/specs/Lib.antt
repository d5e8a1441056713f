pub mod WhiteSpace
