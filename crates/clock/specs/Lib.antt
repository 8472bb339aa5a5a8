pub mod Fields
pub mod Clock
pub mod CodeTime
pub mod Deadline
pub mod Registers
pub mod Sound
