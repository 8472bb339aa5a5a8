pub mod Listing
pub mod CodePuts
