pub mod DadLaws
