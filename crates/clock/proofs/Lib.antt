pub mod Rate
pub mod Soundness
pub mod Law
mod Settings
mod Tests
pub mod Durations
mod Periods
mod Marks
mod Branches
mod Cases
mod Ranges
