pub mod Items
pub mod Letters
pub mod Sound
pub mod Complete
