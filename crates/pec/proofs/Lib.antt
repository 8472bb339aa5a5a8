mod Runs
mod Parked
pub mod Packing
