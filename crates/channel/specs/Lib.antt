pub mod Channel
pub mod Prescaler
pub mod Matches
pub mod Splits
pub mod Modes
pub mod Deadline
pub mod Registers
