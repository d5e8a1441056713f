pub mod Units
pub mod Partners
