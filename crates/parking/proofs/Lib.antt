mod Shifted
mod Forms
pub mod Answers
pub mod Stored
pub mod BoardMembers
pub mod RoundTrip
pub mod MovedImages
pub mod Parkings
pub mod Settings
