pub mod Laws
pub mod Takes
pub mod Places
pub mod Last
pub mod Filling
pub mod Demand
pub mod AnyRules
