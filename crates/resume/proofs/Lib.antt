pub mod Answers
pub mod TwoRuns
pub mod Carried
pub mod Stretch
pub mod OneCall
pub mod SuccessiveRuns
pub mod Counts
