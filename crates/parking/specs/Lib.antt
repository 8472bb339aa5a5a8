pub mod Parking
pub mod Moves
pub mod Answers
pub mod CodeReads
pub mod Demand
