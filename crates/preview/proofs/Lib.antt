pub mod Shown
mod Bytes
mod Answers
pub mod Settings
