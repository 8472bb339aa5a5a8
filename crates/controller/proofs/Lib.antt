pub mod Bits
pub mod Laws
pub mod Lowest
pub mod Registers
pub mod Settings
pub mod Sources
pub mod Widths
