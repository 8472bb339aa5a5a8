mod Puts
pub mod Numbers
mod Lines
mod Answers
pub mod Records
pub mod Settings
