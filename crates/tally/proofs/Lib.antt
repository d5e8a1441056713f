-- The laws of a total beside a double, which a crate above cites.
pub mod Laws
