pub mod Bits
pub mod Number
pub mod Deadline
pub mod Fields
pub mod Words
