pub mod CodeReads
pub mod CodeWrites
