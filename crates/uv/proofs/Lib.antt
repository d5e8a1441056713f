pub mod UvLaws
