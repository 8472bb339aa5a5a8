pub mod Sound
pub mod Law
pub mod Settings
pub mod Splitting
mod Keeping
mod Prescaling
mod Reloading
mod Distances
pub mod Counting
