pub mod Choices
pub mod Deadlines
pub mod BigEndian
pub mod Bits
pub mod Quotients
pub mod TwoWords
pub mod Forms
mod Products
