mod Pending
pub mod Ranges
