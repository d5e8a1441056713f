pub mod AtlasLaws
