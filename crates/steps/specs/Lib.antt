pub mod CodeSteps
