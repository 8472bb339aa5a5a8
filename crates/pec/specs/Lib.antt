pub mod Packed
pub mod Parked
pub mod Repeats
