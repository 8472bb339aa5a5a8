pub mod Bits
pub mod Controller
