pub mod Preview
pub mod CodeReach
