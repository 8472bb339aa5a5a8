pub mod Run
pub mod Demand
