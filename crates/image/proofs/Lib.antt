pub mod Tables
pub mod Taken
pub mod Fields
