pub mod Resumed
pub mod Carried
pub mod InRuns
pub mod Counts
