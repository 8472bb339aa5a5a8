pub mod Carried
mod Texts
pub mod Example
