mod Arms
pub mod Results
pub mod Runs
pub mod TwoParts
pub mod Kept
pub mod Demand
pub mod Settings
