pub mod Records
mod CallParts
pub mod Advances
pub mod Calls
