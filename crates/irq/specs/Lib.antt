pub mod Presented
