pub mod Timing
pub mod Latches
mod Lists
pub mod Kept
pub mod CodeReads
mod Settings
pub mod CodeWrites
pub mod Line
