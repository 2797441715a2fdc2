pub mod Listings
pub mod Statuses
