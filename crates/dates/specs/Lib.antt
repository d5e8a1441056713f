pub mod Dates
pub mod Grammar
